pub mod WritingLaws
pub mod ClaimLines
pub mod JoinedLines
