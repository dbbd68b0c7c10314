pub mod SerialEngine
