pub mod MemoryLine
