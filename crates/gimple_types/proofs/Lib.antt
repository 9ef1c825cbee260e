pub mod TableLemmas
pub mod ItemLemmas
pub mod StructLemmas
pub mod CountLemmas
pub mod NameLemmas
pub mod ProgramLemmas
