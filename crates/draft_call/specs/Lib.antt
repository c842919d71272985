pub mod Verdict
pub mod Drafted
