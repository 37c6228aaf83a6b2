pub mod Laws
pub mod LinesSay
pub mod CertLaws
