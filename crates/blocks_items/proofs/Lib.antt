pub mod Items
pub mod DummyLines
