pub mod Forms
pub mod Faults
pub mod Inside
pub mod Streams
