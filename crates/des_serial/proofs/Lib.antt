pub mod Course
