-- The streams of sockets that are polled.
use Rattle.std.specs.Prelude.{ℕ, Option, None, Some, nat_eq}
use Rattle.std.specs.HashMap.{get}
use Rattle.indexmap.specs.IndexMap.{IndexMap}
use Rattle.compose_many.specs.Numbered.{StreamState}
use Rattle.compose_many.specs.declared.streams.TryError.{TryError}
use Rattle.compose_many.specs.declared.streams.TryError.TheVariants.{Failed}
use Rattle.compose_hub.specs.declared.marked.Marked.{Marked}

-- why a stream read or wrote no bytes; a stream that isn't open has failed
abbrev pub read_mark_of : {D : Type 0} → Option (Marked D) → Option TryError
read_mark_of None = Some Failed
read_mark_of (Some s) = s.read_mark

abbrev pub write_mark_of : {D : Type 0} → Option (Marked D) → Option TryError
write_mark_of None = Some Failed
write_mark_of (Some s) = s.write_mark

-- the stream with a number, whose bytes are not known
abbrev pub polled_at : {D S : Type 0} → IndexMap ℕ (Marked D) S → ℕ → StreamState
polled_at streams c = record { left = None; written = None; read_mark = read_mark_of (get nat_eq streams c); write_mark = write_mark_of (get nat_eq streams c) }
