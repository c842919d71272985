pub mod Drafted
pub mod Verdict
