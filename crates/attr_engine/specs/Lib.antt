pub mod Edits
pub mod Fresh
pub mod Moved
pub mod Nodes
pub mod Plans
pub mod Rules
pub mod formers
