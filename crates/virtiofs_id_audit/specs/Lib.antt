pub mod IdAudit
pub mod IdAuditParts
pub mod Mending
pub mod MendingParts
pub mod Namespace
pub mod Outside
pub mod OutsideParts
