-- What is returned of the bytes in a window is returned of all bytes.
use Rattle.std.proofs.Common.{◌≡◌, ℕ, ◌<◌, List, [], ◌++◌, length, ◌∙◌, ap, append_assoc, append-nil}
use Rattle.std.specs.Prelude.{Option, Some, None, Result, Ok, Err}
use Rattle.compose_wire.specs.Frames.{reply_bytes}
use Rattle.compose_wire.specs.declared.reply.Reply.{Reply}
use Rattle.compose_client.specs.Giving.{Returns}
use Rattle.compose_client.specs.declared.fault.ReplyFault.{ReplyFault}
use Rattle.compose_client.specs.declared.fault.ReplyFault.TheVariants.{UnknownKind, BadLength, BadPayload, NoMemory}
use Rattle.compose_client.proofs.HeadFault.{head_stays, payload_stays}

-- if more bytes follow only a full window, what is returned is that of all bytes
pub widened : (result : Result (Option Reply) ReplyFault) (held held' more : List ℕ) → (length held < 266 → more ≡ []) → Returns result held held' → Returns result (held ++ more) (held' ++ more)
widened (Ok (Some reply)) held held' more h so = record {
  value = so.value;
  says = so.says;
  fits = so.fits;
  bytes = ap (λ (bytes : List ℕ). bytes ++ more) so.bytes ∙ append_assoc (reply_bytes so.value) held' more;
}
widened (Ok None) held held' more h so = rw (h so.1) (rw (append-nil held) (rw (append-nil held') so))
widened (Err UnknownKind) held held' more h so = (head_stays held more _ so.0, ap (λ (bytes : List ℕ). bytes ++ more) so.1)
widened (Err BadLength) held held' more h so = (head_stays held more _ so.0, ap (λ (bytes : List ℕ). bytes ++ more) so.1)
widened (Err BadPayload) held held' more h so = (payload_stays held more so.0, ap (λ (bytes : List ℕ). bytes ++ more) so.1)
widened (Err NoMemory) held held' more h so = absurd so.0
