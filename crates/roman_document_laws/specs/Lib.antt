pub mod Normals
pub mod Listed
pub mod PartReads
pub mod PartWriter
pub mod DocumentReads
pub mod DocumentWriter
pub mod SeveralWriter
pub mod Accepted
