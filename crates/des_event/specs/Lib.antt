pub mod Keys
pub mod KeyOrder
