pub mod PageFacts
