pub mod EmptyFiles
pub mod CommentedFile
