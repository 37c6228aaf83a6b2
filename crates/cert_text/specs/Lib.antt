pub mod CertLines
pub mod Certificates
pub mod CertText
pub mod Faults
pub mod Printed
pub mod Rows
pub mod Items
