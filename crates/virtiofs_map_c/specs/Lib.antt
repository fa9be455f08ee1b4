pub mod Arrays
pub mod Faults
pub mod Ids
pub mod Names
pub mod Replies
pub mod Texts
pub mod Values
pub mod Wholes
