pub mod Rows
pub mod Kernels
