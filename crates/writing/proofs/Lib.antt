pub mod WordLaws
pub mod CertificateLaws
