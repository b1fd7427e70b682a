pub mod ByteVec
