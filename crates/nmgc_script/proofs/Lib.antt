pub mod ArityLaws
pub mod BenchLaws
pub mod CauseLaws
pub mod CommandLaws
pub mod ConfigLaws
pub mod Each
pub mod Entries
pub mod FaultLaws
pub mod Kept
pub mod OneFault
pub mod PrintLaws
pub mod ScriptLaws
pub mod SectionLaws
pub mod ShapeLaws
pub mod Totals
pub mod VerbLaws
pub mod WordLaws
mod Vocabulary
