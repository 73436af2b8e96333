-- The laws of power cuts and of whole tables.
use Rattle.std.proofs.Common.{◌≡◌, refl, ap, subst, ℕ, List, [], ◌∷◌, ◌++◌, inl, inr}
use Rattle.std.specs.Prelude.{◌⊎◌, Option, Some, None, Result, Ok, Err, IsTrue}
use Rattle.std.specs.declared.io.ErrorKind.{ErrorKind}
use Rattle.compose_stored.specs.Folder.{Call, Files, After, AtEachMoment, AtTheEnd, writing, wrote, renamed, linked, removed, synced, failed}
use Rattle.compose_stored.specs.Changes.{Changes, SomeFails}
use Rattle.compose_stored.specs.Laws.{HoldsWhateverIsLost, RewrittenStaysWhole, StaysWhole, StoredStaysWhole, TakenStaysWhole}
use Rattle.compose_stored.specs.Storing.{HasTable, NewInUse, OldInUse, PutsInUse}
use Rattle.compose_stored.proofs.Changing.{after_so, moments_so}

-- ---- power cuts

first_moment : (P : Files → Type 0) (calls : List Call) (f : Files) → AtEachMoment P calls f → P f
first_moment P [] f p = p
first_moment P (call ∷ calls) f (p, rest) = p

reached_end : (P : Files → Type 0) (reached lost : List Call) (f : Files) → AtEachMoment P (reached ++ lost) f → AtTheEnd P reached f
reached_end P [] lost f p = first_moment P lost f p
reached_end P (call ∷ reached) lost f (p, rest) = after_so (AtEachMoment P (reached ++ lost)) (AtTheEnd P reached) call f (reached_end P reached lost) rest

after_each : (Q : List Call → Files → Type 0) (calls : List Call) (call : Call) (f : Files) → ((reached lost : List Call) → calls ≡ reached ++ lost → After call (Q reached) f)
    → After call (λ g. (reached lost : List Call) → calls ≡ reached ++ lost → Q reached g) f
after_each Q calls (writing name) f h = λ part reached lost e. h reached lost e part
after_each Q calls (wrote name bytes) f h = h
after_each Q calls (renamed from to) f h = h
after_each Q calls (linked from to) f h = h
after_each Q calls (removed name) f h = h
after_each Q calls (synced done) f h = h
after_each Q calls (failed why) f h = h

each_moment : (P : Files → Type 0) (calls : List Call) (f : Files) → ((reached lost : List Call) → calls ≡ reached ++ lost → AtTheEnd P reached f) → AtEachMoment P calls f
each_moment P [] f h = h [] [] refl
each_moment P (call ∷ calls) f h = (
  h [] (call ∷ calls) refl,
  after_so (λ g. (reached lost : List Call) → calls ≡ reached ++ lost → AtTheEnd P reached g) (AtEachMoment P calls) call f (each_moment P calls)
      (after_each (AtTheEnd P) calls call f (λ reached lost e. h (call ∷ reached) lost (ap (λ (x : List Call). call ∷ x) e))),
)

pub holds_whatever_is_lost : HoldsWhateverIsLost
holds_whatever_is_lost test calls f = (
  λ moments reached lost e. reached_end (λ g. IsTrue (test g)) reached lost f (subst (λ (x : List Call). AtEachMoment (λ g. IsTrue (test g)) x f) e moments),
  each_moment (λ g. IsTrue (test g)) calls f,
)

-- ---- whole tables

whole : (M E : Files → Files → Type 0) (table : Files → Option (List ℕ)) (old new : Option (List Call)) → ((f g : Files) → M f g → (g.table ≡ f.table) ⊎ (g.table ≡ table f)) → Changes M E old new → StaysWhole table old new
whole M E table old new h a = (a.made, a.calls, λ f. moments_so (M f) (λ g. (g.table ≡ f.table) ⊎ (g.table ≡ table f)) (h f) a.made f (a.moments f))

put_either : (kept table next : Files → Option (List ℕ)) (f g : Files) → (OldInUse kept f g ⊎ NewInUse kept (table f) (next f) f g) → (g.table ≡ f.table) ⊎ (g.table ≡ table f)
put_either kept table next f g (inl o) = inl o.0.table_is
put_either kept table next f g (inr n) = inr n.0.table_is

rewritten_either : (bytes : List ℕ) (f g : Files) → (HasTable f.table f g ⊎ HasTable (Some bytes) f g) → (g.table ≡ f.table) ⊎ (g.table ≡ Some bytes)
rewritten_either bytes f g (inl h) = inl h.table_is
rewritten_either bytes f g (inr h) = inr h.table_is

put_whole : (kept : Files → Option (List ℕ)) (Made : List Call → Type 0) (table next : Files → Option (List ℕ)) (old new : Option (List Call)) (result : Result (Unit {0}) ErrorKind) → PutsInUse kept Made table next old new result → StaysWhole table old new
put_whole kept Made table next old new (Ok done) (a, x) = whole (λ f g. OldInUse kept f g ⊎ NewInUse kept (table f) (next f) f g) (λ f. NewInUse kept (table f) (next f) f) table old new (put_either kept table next) a
put_whole kept Made table next old new (Err why) (a, x) = whole (OldInUse kept) (OldInUse kept) table old new (λ f g o. inl o.0.table_is) a

pub stored_whole : StoredStaysWhole
stored_whole bytes old new result (inl a) = put_whole (λ f. f.table) (λ calls. Unit {0}) (λ f. Some bytes) (λ f. f.next) old new result a
stored_whole bytes old new result (inr a) = put_whole (λ f. None) SomeFails (λ f. Some bytes) (λ f. f.next) old new result a

pub taken_whole : TakenStaysWhole
taken_whole old new result (inl a) = put_whole (λ f. f.table) (λ calls. Unit {0}) (λ f. f.next) (λ f. None) old new result a
taken_whole old new result (inr a) = put_whole (λ f. None) SomeFails (λ f. f.next) (λ f. None) old new result a

pub rewritten_whole : RewrittenStaysWhole
rewritten_whole bytes old new (Ok done) (a, x) = whole (λ f g. HasTable f.table f g ⊎ HasTable (Some bytes) f g) (λ f. HasTable (Some bytes) f) (λ f. Some bytes) old new (rewritten_either bytes) a
rewritten_whole bytes old new (Err why) (a, x) = whole (λ f. HasTable f.table f) (λ f. HasTable f.table f) (λ f. Some bytes) old new (λ f g h. inl h.table_is) a
