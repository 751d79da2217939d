pub mod EntryLaws
pub mod examples
pub mod NameLaws
pub mod PutLaws
pub mod SubLaws
