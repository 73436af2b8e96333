-- What is returned depends only on the held bytes.
use Rattle.std.proofs.Common.{◌≡◌, ℕ, List, ◌++◌, refl, sym, ◌∙◌, ap, subst}
use Rattle.std.specs.Prelude.{Option, Some, None, Result, Ok, Err}
use Rattle.compose_wire.specs.Messages.{Request as RequestValue, Fits}
use Rattle.compose_wire.specs.Frames.{frame, Fault, fault_at, IsBegun}
use Rattle.compose_wire.specs.Feeding.{Returns, ReturnsRequest, IsLoaded, wire_fault}
use Rattle.compose_wire.specs.declared.request.Request.{Request}
use Rattle.compose_wire.specs.declared.fault.WireFault.{WireFault}
use Rattle.compose_wire.specs.declared.fault.WireFault.TheVariants.{UnknownKind, BadLength, TooLong, NoMemory}
use Rattle.compose_wire.proofs.OneFrame.{one_frame}
use Rattle.compose_wire.proofs.NextFrame.{no_fault}

module _ (held held' : List ℕ) where
  -- a whole frame is no fault
  frame_or_fault : (q : RequestValue) (more : List ℕ) → Fits q → held ≡ frame q ++ more → (fault : Fault) → fault_at held ≡ Some fault → ⊥
  frame_or_fault q more f e fault w = let n : None ≡ Some fault = sym (no_fault q more f) ∙ ap fault_at (sym e) ∙ w in cc

  -- if the held bytes begin with a frame, its request is returned, or an error if a load needs
  -- memory
  pub gives_request : (r : Result (Option Request) WireFault) → Returns r held held' → (q : RequestValue) (more : List ℕ) → Fits q → held ≡ frame q ++ more → ReturnsRequest q more r held'
  gives_request (Ok (Some p)) so q more f e = one_frame _ q held' more so.0 f (sym so.1 ∙ e)
  gives_request (Ok None) so q more f e = absurd (so.0.no_frame (q, more, f, e))
  gives_request (Err UnknownKind) so q more f e = absurd (frame_or_fault q more f e _ so.0)
  gives_request (Err BadLength) so q more f e = absurd (frame_or_fault q more f e _ so.0)
  gives_request (Err TooLong) so q more f e = absurd (frame_or_fault q more f e _ so.0)
  gives_request (Err NoMemory) so q more f e =
      let same = one_frame so.0.0 q so.0.1 more so.0.2 f (sym so.0.4 ∙ e) in
      (subst (λ (p : RequestValue). IsLoaded p.body) same.0 so.0.3, so.1 ∙ e)

  -- if the held bytes begin with a fault, that fault is returned
  pub gives_fault : (r : Result (Option Request) WireFault) → Returns r held held' → (fault : Fault) → fault_at held ≡ Some fault → r ≡ Err (wire_fault fault)
  gives_fault (Ok (Some p)) so fault w = absurd (frame_or_fault _ held' so.0 so.1 fault w)
  gives_fault (Ok None) so fault w = let n : None ≡ Some fault = sym so.0.no_fault ∙ w in cc
  gives_fault (Err UnknownKind) so fault w = let n : Some _ ≡ Some fault = sym so.0 ∙ w in cc
  gives_fault (Err BadLength) so fault w = let n : Some _ ≡ Some fault = sym so.0 ∙ w in cc
  gives_fault (Err TooLong) so fault w = let n : Some _ ≡ Some fault = sym so.0 ∙ w in cc
  gives_fault (Err NoMemory) so fault w = absurd (frame_or_fault so.0.0 so.0.1 so.0.2 so.0.4 fault w)

  -- if the held bytes are less than a frame and have no fault, nothing is returned
  pub gives_none : (r : Result (Option Request) WireFault) → Returns r held held' → IsBegun held → r ≡ Ok None
  gives_none (Ok (Some p)) so b = absurd (b.no_frame (_, held', so.0, so.1))
  gives_none (Ok None) so b = refl
  gives_none (Err UnknownKind) so b = let n : None ≡ Some _ = sym b.no_fault ∙ so.0 in cc
  gives_none (Err BadLength) so b = let n : None ≡ Some _ = sym b.no_fault ∙ so.0 in cc
  gives_none (Err TooLong) so b = let n : None ≡ Some _ = sym b.no_fault ∙ so.0 in cc
  gives_none (Err NoMemory) so b = absurd (b.no_frame (so.0.0, so.0.1, so.0.2, so.0.4))
