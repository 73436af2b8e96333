-- What those see who read the table in use, the previous one and the next.
use Rattle.std.proofs.Common.{◌≡◌, ◌∙◌, refl, sym, ap, subst, ℕ, Bool, List, [], ◌∷◌, ◌++◌, inl, inr}
use Rattle.std.specs.Prelude.{◌⊎◌, Option, Some, None, Result, Ok, Err}
use Rattle.std.specs.declared.io.ErrorKind.{ErrorKind}
use Rattle.compose_stored.specs.declared.files.Name.TheVariants as names
use Rattle.compose_stored.specs.Folder.{Call, Files, failed, more, put, moved, removed, synced}
use Rattle.compose_stored.specs.Changes.{Changes, ChangesBy, EndsWaiting, Fails, SomeFails}
use Rattle.compose_stored.specs.Steps.{ButFor, Keeping, Replaced, Replaces, Used, Uses, UsesKeeping}
use Rattle.compose_stored.specs.Storing.{HasNext, HasTable, InUse, IsDropped, IsHandedOver, IsRewritten, IsStored, IsTaken, NewInUse, OldInUse, PutsInUse}
use Rattle.compose_stored.proofs.Changing.{ends_after, fails_after, followed_by, more_more, only_failed, some_after, weaker_by}

-- ---- a table in use, and the previous one

old_of : (kept : Files → Option (List ℕ)) (f g : Files) → Keeping kept f g → OldInUse kept f g
old_of kept f g (inl (part, e)) = subst (OldInUse kept f) (sym e) (record { table_is = refl; next_is = refl; new_next = refl }, inl refl)
old_of kept f g (inr (part, e)) = subst (OldInUse kept f) (sym e) (record { table_is = refl; next_is = refl; new_next = refl }, inr refl)

-- the file `next` was renamed to the table in use, or a new one was
taken_of : (kept : Files → Option (List ℕ)) (f h : Files) → Used kept names.Next f h → NewInUse kept f.next None f h
taken_of kept f h (g, (part, e), e') = subst (NewInUse kept f.next None f) (sym (e' ∙ ap (moved names.Next names.Table) e)) (record { table_is = refl; next_is = refl; new_next = refl }, refl)

stored_of : (kept : Files → Option (List ℕ)) (f h : Files) → Used kept names.NewTable f h → NewInUse kept f.new_table f.next f h
stored_of kept f h (g, (part, e), e') = subst (NewInUse kept f.new_table f.next f) (sym (e' ∙ ap (moved names.NewTable names.Table) e)) (record { table_is = refl; next_is = refl; new_next = refl }, refl)

-- ---- the table is written whole, and is used

old_but : (kept : Files → Option (List ℕ)) (f g : Files) → ButFor names.NewTable f g → OldInUse kept f g
old_but kept f g (part, e) = subst (OldInUse kept f) (sym e) (record { table_is = refl; next_is = refl; new_next = refl }, inl refl)

-- the same, as of the folder before the new table was written
use_from : (table next : Option (List ℕ)) (bytes : List ℕ) (f h : Files) → InUse table next (put names.NewTable (Some bytes) f) h → InUse table next f h
use_from table next bytes f h r = record { table_is = r.table_is; next_is = r.next_is; new_next = r.new_next }

old_from : (kept : Files → Option (List ℕ)) (bytes : List ℕ) (f h : Files) → kept (put names.NewTable (Some bytes) f) ≡ kept f → OldInUse kept (put names.NewTable (Some bytes) f) h → OldInUse kept f h
old_from kept bytes f h same (r, inl e) = (use_from f.table f.next bytes f h r, inl e)
old_from kept bytes f h same (r, inr e) = (use_from f.table f.next bytes f h r, inr (e ∙ same))

old_later : (kept : Files → Option (List ℕ)) (bytes : List ℕ) → ((f : Files) → kept (put names.NewTable (Some bytes) f) ≡ kept f) → (f g h : Files) → g ≡ put names.NewTable (Some bytes) f → Keeping kept g h → OldInUse kept f h
old_later kept bytes same f g h e k = old_from kept bytes f h (same f) (subst (λ (x : Files). OldInUse kept x h) e (old_of kept g h k))

new_from : (kept : Files → Option (List ℕ)) (bytes : List ℕ) (f h : Files) → kept (put names.NewTable (Some bytes) f) ≡ kept f → NewInUse kept (Some bytes) f.next (put names.NewTable (Some bytes) f) h → NewInUse kept (Some bytes) f.next f h
new_from kept bytes f h same (r, e) = (use_from (Some bytes) f.next bytes f h r, e ∙ same)

stored_end : (kept : Files → Option (List ℕ)) (bytes : List ℕ) → ((f : Files) → kept (put names.NewTable (Some bytes) f) ≡ kept f) → (f g h : Files) → g ≡ put names.NewTable (Some bytes) f → Used kept names.NewTable g h
    → NewInUse kept (Some bytes) f.next f h
stored_end kept bytes same f g h e u = new_from kept bytes f h (same f) (subst (λ (x : Files). NewInUse kept x.new_table x.next x h) e (stored_of kept g h u))

stored_later : (kept : Files → Option (List ℕ)) (bytes : List ℕ) → ((f : Files) → kept (put names.NewTable (Some bytes) f) ≡ kept f) → (f g h : Files) → g ≡ put names.NewTable (Some bytes) f
    → (Keeping kept g h ⊎ Used kept names.NewTable g h) → OldInUse kept f h ⊎ NewInUse kept (Some bytes) f.next f h
stored_later kept bytes same f g h e (inl k) = inl (old_later kept bytes same f g h e k)
stored_later kept bytes same f g h e (inr u) = inr (stored_end kept bytes same f g h e u)

stored_keeping : (kept : Files → Option (List ℕ)) (Made : List Call → Type 0) (bytes : List ℕ) (r : Result (Unit {0}) ErrorKind) (old mid new : Option (List Call)) → ((f : Files) → kept (put names.NewTable (Some bytes) f) ≡ kept f)
    → ((calls next : List Call) → Made next → Made (calls ++ next)) → Changes (ButFor names.NewTable) (λ f g. g ≡ put names.NewTable (Some bytes) f) old mid → UsesKeeping kept Made names.NewTable mid new r
    → PutsInUse kept Made (λ f. Some bytes) (λ f. f.next) old new r
stored_keeping kept Made bytes (Ok done) old mid new same tell a b =
    followed_by (λ calls. Unit {0}) (λ calls. EndsWaiting calls × Made calls) (λ calls. EndsWaiting calls × Made calls) (ButFor names.NewTable) (λ f g. g ≡ put names.NewTable (Some bytes) f)
    (λ f g. Keeping kept f g ⊎ Used kept names.NewTable f g) (Used kept names.NewTable) (λ f g. OldInUse kept f g ⊎ NewInUse kept (Some bytes) f.next f g) (λ f. NewInUse kept (Some bytes) f.next f) old mid new
    (λ calls next x y. (ends_after calls next y.0, tell calls next y.1)) (λ f g k. inl (old_but kept f g k)) (stored_later kept bytes same) (stored_end kept bytes same) (a, tt) b
stored_keeping kept Made bytes (Err why) old mid new same tell a b =
    followed_by (λ calls. Unit {0}) (Fails why) (Fails why) (ButFor names.NewTable) (λ f g. g ≡ put names.NewTable (Some bytes) f) (Keeping kept) (Keeping kept) (OldInUse kept) (OldInUse kept) old mid new
    (λ calls next x. fails_after why calls next) (old_but kept) (old_later kept bytes same) (old_later kept bytes same) (a, tt) b

pub stored : (bytes : List ℕ) (r : Result (Unit {0}) ErrorKind) (old mid new : Option (List Call)) → Changes (ButFor names.NewTable) (λ f g. g ≡ put names.NewTable (Some bytes) f) old mid
    → Uses names.NewTable mid new r → IsStored bytes old new r
stored bytes r old mid new a (inl b) = inl (stored_keeping (λ f. f.table) (λ calls. Unit {0}) bytes r old mid new (λ f. refl) (λ calls next x. tt) a b)
stored bytes r old mid new a (inr b) = inr (stored_keeping (λ f. None) SomeFails bytes r old mid new (λ f. refl) some_after a b)

pub not_stored : (bytes : List ℕ) (why : ErrorKind) (old new : Option (List Call)) → ChangesBy (Fails why) (ButFor names.NewTable) (ButFor names.NewTable) old new → IsStored bytes old new (Err why)
not_stored bytes why old new a = inl (weaker_by (Fails why) (ButFor names.NewTable) (ButFor names.NewTable) (OldInUse (λ f. f.table)) (OldInUse (λ f. f.table)) old new (old_but (λ f. f.table)) (old_but (λ f. f.table)) a)

-- ---- the next table is used

taken_later : (kept : Files → Option (List ℕ)) (f g : Files) → (Keeping kept f g ⊎ Used kept names.Next f g) → OldInUse kept f g ⊎ NewInUse kept f.next None f g
taken_later kept f g (inl k) = inl (old_of kept f g k)
taken_later kept f g (inr u) = inr (taken_of kept f g u)

taken_keeping : (kept : Files → Option (List ℕ)) (Made : List Call → Type 0) (r : Result (Unit {0}) ErrorKind) (old new : Option (List Call)) → UsesKeeping kept Made names.Next old new r
    → PutsInUse kept Made (λ f. f.next) (λ f. None) old new r
taken_keeping kept Made (Ok done) old new a =
    weaker_by (λ calls. EndsWaiting calls × Made calls) (λ f g. Keeping kept f g ⊎ Used kept names.Next f g) (Used kept names.Next) (λ f g. OldInUse kept f g ⊎ NewInUse kept f.next None f g) (λ f. NewInUse kept f.next None f) old new
    (taken_later kept) (taken_of kept) a
taken_keeping kept Made (Err why) old new a = weaker_by (Fails why) (Keeping kept) (Keeping kept) (OldInUse kept) (OldInUse kept) old new (old_of kept) (old_of kept) a

pub taken : (r : Result (Unit {0}) ErrorKind) (old new : Option (List Call)) → Uses names.Next old new r → IsTaken old new r
taken r old new (inl a) = inl (taken_keeping (λ f. f.table) (λ calls. Unit {0}) r old new a)
taken r old new (inr a) = inr (taken_keeping (λ f. None) SomeFails r old new a)

-- ---- the table alone changes

table_but : (f g : Files) → ButFor names.NewTable f g → HasTable f.table f g
table_but f g (part, e) = subst (HasTable f.table f) (sym e) (record { table_is = refl; previous = refl; new_previous = refl; next = refl; new_next = refl })

table_new : (bytes : List ℕ) (f g : Files) → Replaced names.NewTable names.Table bytes f g → HasTable (Some bytes) f g
table_new bytes f g e = subst (HasTable (Some bytes) f) (sym e) (record { table_is = refl; previous = refl; new_previous = refl; next = refl; new_next = refl })

table_either : (bytes : List ℕ) (f g : Files) → (ButFor names.NewTable f g ⊎ Replaced names.NewTable names.Table bytes f g) → HasTable f.table f g ⊎ HasTable (Some bytes) f g
table_either bytes f g (inl k) = inl (table_but f g k)
table_either bytes f g (inr e) = inr (table_new bytes f g e)

pub rewritten : (bytes : List ℕ) (r : Result (Unit {0}) ErrorKind) (old new : Option (List Call)) → Replaces names.NewTable names.Table bytes old new r → IsRewritten bytes old new r
rewritten bytes (Ok done) old new a =
    weaker_by EndsWaiting (λ f g. ButFor names.NewTable f g ⊎ Replaced names.NewTable names.Table bytes f g) (Replaced names.NewTable names.Table bytes)
    (λ f g. HasTable f.table f g ⊎ HasTable (Some bytes) f g) (λ f. HasTable (Some bytes) f) old new (table_either bytes) (table_new bytes) a
rewritten bytes (Err why) old new a = weaker_by (Fails why) (ButFor names.NewTable) (ButFor names.NewTable) (λ f. HasTable f.table f) (λ f. HasTable f.table f) old new table_but table_but a

-- ---- the next table alone changes

next_but : (f g : Files) → ButFor names.NewNext f g → HasNext f.next f g
next_but f g (part, e) = subst (HasNext f.next f) (sym e) (record { next_is = refl; table = refl; new_table = refl; previous = refl; new_previous = refl })

next_new : (bytes : List ℕ) (f g : Files) → Replaced names.NewNext names.Next bytes f g → HasNext (Some bytes) f g
next_new bytes f g e = subst (HasNext (Some bytes) f) (sym e) (record { next_is = refl; table = refl; new_table = refl; previous = refl; new_previous = refl })

next_either : (bytes : List ℕ) (f g : Files) → (ButFor names.NewNext f g ⊎ Replaced names.NewNext names.Next bytes f g) → HasNext f.next f g ⊎ HasNext (Some bytes) f g
next_either bytes f g (inl k) = inl (next_but f g k)
next_either bytes f g (inr e) = inr (next_new bytes f g e)

pub handed_over : (bytes : List ℕ) (r : Result (Unit {0}) ErrorKind) (old new : Option (List Call)) → Replaces names.NewNext names.Next bytes old new r → IsHandedOver bytes old new r
handed_over bytes (Ok done) old new a =
    weaker_by EndsWaiting (λ f g. ButFor names.NewNext f g ⊎ Replaced names.NewNext names.Next bytes f g) (Replaced names.NewNext names.Next bytes)
    (λ f g. HasNext f.next f g ⊎ HasNext (Some bytes) f g) (λ f. HasNext (Some bytes) f) old new (next_either bytes) (next_new bytes) a
handed_over bytes (Err why) old new a = weaker_by (Fails why) (ButFor names.NewNext) (ButFor names.NewNext) (λ f. HasNext f.next f) (λ f. HasNext f.next f) old new next_but next_but a

as_before : (f : Files) → HasNext f.next f f
as_before f = record { next_is = refl; table = refl; new_table = refl; previous = refl; new_previous = refl }

without : (f : Files) → HasNext None f (put names.Next None f)
without f = record { next_is = refl; table = refl; new_table = refl; previous = refl; new_previous = refl }

pub dropped : (old mid new : Option (List Call)) (x : Unit {0}) → mid ≡ more old (removed names.Next ∷ []) → ((done : Bool) × (new ≡ more mid (synced done ∷ []))) → IsDropped old new (Ok x)
dropped old mid new x e (done, e') = (
  record {
    made = removed names.Next ∷ synced done ∷ [];
    calls = e' ∙ ap (λ (x : Option (List Call)). more x (synced done ∷ [])) e ∙ more_more old (removed names.Next ∷ []) (synced done ∷ []);
    moments = λ f. (inl (as_before f), (inr (without f), inr (without f)));
    ending = λ f. without f;
  },
  (removed names.Next ∷ [], done, refl),
)

pub not_dropped : (why : ErrorKind) (old new : Option (List Call)) → new ≡ more old (failed why ∷ []) → IsDropped old new (Err why)
not_dropped why old new e = only_failed why (λ f. HasNext f.next f) (λ f. HasNext f.next f) old new e as_before as_before
