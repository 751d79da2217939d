-- The canonical text of each file is laid out so that its tokens can be told apart again.
pub mod Fronts
pub mod Items
pub mod Texts
pub mod Lines
pub mod Operators
pub mod Parts
pub mod Lists
pub mod Pieces
pub mod Law
