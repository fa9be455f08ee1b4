pub mod Acl
pub mod AclLaws
pub mod AclParts
pub mod AclPrinted
pub mod Capability
pub mod LittleEndian
pub mod ValueChanges
pub mod ValueKinds
