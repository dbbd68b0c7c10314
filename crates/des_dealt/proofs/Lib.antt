pub mod EventCounts
