pub mod ValueLaws
pub mod SignatureLaws
pub mod BodyLaws
pub mod EndLaws
pub mod DeclarationLaws
pub mod ProgramLaws
pub mod Theorems
