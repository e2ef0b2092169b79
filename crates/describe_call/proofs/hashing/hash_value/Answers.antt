use Rattle.std.proofs.Common.{◌∙◌, ap, ap₂}
use Rattle.toeplitz_hash.specs.Toeplitz.{toeplitz_of}
use Rattle.toeplitz_hash.specs.Packets.{input_bytes}
use Rattle.describe_call.proofs.hashing.hash_value.Goals as goal

pub returns : goal.returns
returns c =
    c.toeplitz.ensures ∙ ap₂ toeplitz_of (c.as_slice.ensures.value ∙ c.key_of.ensures)
    (c.as_slice-2.ensures.value ∙ c.input_of.ensures ∙ ap input_bytes c.fields_between-fields.ensures)
