-- What RFC 3629 says, stated of the definitions, and a table of examples; then the laws that prove this and the functions. A reader
-- of the contracts meets none of these.
pub mod Rfc3629
pub mod Utf8Examples
pub mod Fronts
pub mod Texts
pub mod TextOrder
pub mod Octets
pub mod Encoded
pub mod Decoding
