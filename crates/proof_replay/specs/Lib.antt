pub mod Carrying
pub mod Digests
pub mod Keys
pub mod Queues
pub mod Sequents
pub mod Words
