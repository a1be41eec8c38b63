pub mod EdnsLemmas
pub mod FlagsLemmas
pub mod HeaderLemmas
pub mod PlaceLemmas
pub mod QuestionLemmas
pub mod ShapeLemmas
pub mod WriterLemmas
