pub mod CrossImport
pub mod Pushed
