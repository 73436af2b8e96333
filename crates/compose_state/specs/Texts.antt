-- The text that a key commits, as bytes.
use Rattle.std.specs.Prelude.{ℕ, List, [], encode_utf8}
use Rattle.compose_state.specs.declared.fed.FedText.{FedText}
use Rattle.compose_state.specs.declared.fed.FedText.TheVariants.{Empty, Char, Slice}

abbrev pub text_bytes : FedText → List ℕ
text_bytes Empty = []
text_bytes (Char c) = encode_utf8 c
text_bytes (Slice s) = s.now
