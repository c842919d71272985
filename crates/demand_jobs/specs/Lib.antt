pub mod Job
pub mod LateJob
