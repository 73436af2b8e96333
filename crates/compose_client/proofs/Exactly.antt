-- What is returned depends only on the held bytes.
use Rattle.std.proofs.Common.{◌≡◌, ℕ, List, ◌++◌, refl, sym, ◌∙◌, subst, arith}
use Rattle.std.specs.Prelude.{Option, Some, None, Result, Ok, Err}
use Rattle.compose_wire.specs.Messages.{Reply as ReplyValue}
use Rattle.compose_wire.specs.Frames.{reply_bytes, Fault}
use Rattle.compose_wire.specs.Replies.{HasReplyValue}
use Rattle.compose_wire.specs.declared.reply.Reply.{Reply}
use Rattle.compose_client.specs.Replies.{ReplyFits, BeginsWithReply, head_fault, HasBadPayload, IsReplyBegun}
use Rattle.compose_client.specs.Giving.{Returns, ReturnsReply, reply_fault}
use Rattle.compose_client.specs.declared.fault.ReplyFault.{ReplyFault}
use Rattle.compose_client.specs.declared.fault.ReplyFault.TheVariants.{UnknownKind, BadLength, BadPayload, NoMemory}
use Rattle.compose_client.proofs.OneReply.{one_reply}
use Rattle.compose_client.proofs.FirstReply.{is_read}
use Rattle.compose_client.proofs.HeadFault.{no_reply}

module _ (held held' : List ℕ) where
  -- less than a frame is no reply, and no frame with a bad payload
  begun_or_reply : IsReplyBegun held → BeginsWithReply held → ⊥
  begun_or_reply begun b =
      let long = (is_read held b).long in
      let short = begun.short (omega arith) in
      omega arith

  begun_or_bad : IsReplyBegun held → HasBadPayload held → ⊥
  begun_or_bad begun b =
      let expected = b.expected in
      let short = begun.short b.whole in
      omega arith

  -- if the held bytes begin with the frame of a reply, that reply is returned
  pub gives_reply : (result : Result (Option Reply) ReplyFault) → Returns result held held' → (r : ReplyValue) (more : List ℕ) → ReplyFits r → held ≡ reply_bytes r ++ more
      → ReturnsReply r more result held'
  gives_reply (Ok (Some reply)) so r more f e =
      let same = one_reply so.value r held' more so.fits f (sym so.bytes ∙ e) in
      (subst (λ (q : ReplyValue). HasReplyValue reply q) same.0 so.says, same.1)
  gives_reply (Ok None) so r more f e = absurd (begun_or_reply so.0 (r, more, f, e))
  gives_reply (Err UnknownKind) so r more f e = absurd (no_reply held _ so.0 (r, more, f, e))
  gives_reply (Err BadLength) so r more f e = absurd (no_reply held _ so.0 (r, more, f, e))
  gives_reply (Err BadPayload) so r more f e = absurd (so.0.no_reply (r, more, f, e))
  gives_reply (Err NoMemory) so r more f e = absurd so.0

  -- if the head of the held bytes has a fault, that fault is returned
  pub gives_fault : (result : Result (Option Reply) ReplyFault) → Returns result held held' → (fault : Fault) → head_fault held ≡ Some fault → result ≡ Err (reply_fault fault)
  gives_fault (Ok (Some reply)) so fault w = absurd (no_reply held fault w (so.value, held', so.fits, so.bytes))
  gives_fault (Ok None) so fault w = let n : None ≡ Some fault = sym so.0.head ∙ w in cc
  gives_fault (Err UnknownKind) so fault w = let n : Some _ ≡ Some fault = sym so.0 ∙ w in cc
  gives_fault (Err BadLength) so fault w = let n : Some _ ≡ Some fault = sym so.0 ∙ w in cc
  gives_fault (Err BadPayload) so fault w = let n : None ≡ Some fault = sym so.0.head ∙ w in cc
  gives_fault (Err NoMemory) so fault w = absurd so.0

  -- if the held bytes have a payload that no reply has, that fault is returned
  pub gives_bad_payload : (result : Result (Option Reply) ReplyFault) → Returns result held held' → HasBadPayload held → result ≡ Err BadPayload
  gives_bad_payload (Ok (Some reply)) so b = absurd (b.no_reply (so.value, held', so.fits, so.bytes))
  gives_bad_payload (Ok None) so b = absurd (begun_or_bad so.0 b)
  gives_bad_payload (Err UnknownKind) so b = let n : None ≡ Some _ = sym b.head ∙ so.0 in cc
  gives_bad_payload (Err BadLength) so b = let n : None ≡ Some _ = sym b.head ∙ so.0 in cc
  gives_bad_payload (Err BadPayload) so b = refl
  gives_bad_payload (Err NoMemory) so b = absurd so.0

  -- if the held bytes are less than a reply and have no fault, nothing is returned
  pub gives_none : (result : Result (Option Reply) ReplyFault) → Returns result held held' → IsReplyBegun held → result ≡ Ok None
  gives_none (Ok (Some reply)) so b = absurd (begun_or_reply b (so.value, held', so.fits, so.bytes))
  gives_none (Ok None) so b = refl
  gives_none (Err UnknownKind) so b = let n : None ≡ Some _ = sym b.head ∙ so.0 in cc
  gives_none (Err BadLength) so b = let n : None ≡ Some _ = sym b.head ∙ so.0 in cc
  gives_none (Err BadPayload) so b = absurd (begun_or_bad b so.0)
  gives_none (Err NoMemory) so b = absurd so.0
