pub mod SortLaws
pub mod SortingLaws
