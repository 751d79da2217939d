pub mod Declarations
pub mod SortLists
