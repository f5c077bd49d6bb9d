pub mod Causes
pub mod Endings
pub mod Numbers
pub mod Opening
pub mod Outputs
pub mod RefusalLine
