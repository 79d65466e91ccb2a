pub mod CommandFault
pub mod Fault
pub mod FaultText
pub mod Sentences
pub mod Shown
pub mod SourceFile
