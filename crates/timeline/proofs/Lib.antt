mod LaneLists
mod Times
