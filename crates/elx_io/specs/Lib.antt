pub mod Appends
pub mod Call
pub mod CallOf
pub mod Counts
pub mod Faulty
pub mod Files
pub mod Lines
pub mod Places
