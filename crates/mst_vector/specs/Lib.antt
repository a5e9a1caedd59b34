pub mod Rules
pub mod Lists
pub mod Cist
pub mod CistLaws
pub mod Msti
pub mod MstiLaws
