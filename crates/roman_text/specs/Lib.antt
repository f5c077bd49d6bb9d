pub mod Lines
pub mod Shapes
pub mod Replies
pub mod Report
pub mod Pages
