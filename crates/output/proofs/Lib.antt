pub mod Beginnings
pub mod Parts
pub mod Items
pub mod FieldParts
pub mod PlainFields
pub mod QuotedFields
