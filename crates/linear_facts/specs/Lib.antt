pub mod Asked
pub mod Closing
pub mod Facts
pub mod Forms
pub mod Lanes
pub mod Numbers
pub mod Views
