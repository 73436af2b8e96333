-- What each step makes of the folder.
use Rattle.std.proofs.Common.{◌≡◌, ◌∙◌, refl, sym, ap, subst, ℕ, Bool, true, false, List, [], ◌∷◌, ◌++◌, append_assoc, inl, inr}
use Rattle.std.specs.Prelude.{◌⊎◌, MatchResult, Option, Some, None, Result, Ok, Err}
use Rattle.std.specs.declared.io.ErrorKind.{ErrorKind}
use Rattle.compose_stored.specs.declared.files.Name.{Name}
use Rattle.compose_stored.specs.declared.files.Name.TheVariants as names
use Rattle.compose_stored.specs.Folder.{Call, Files, more, put, get, moved, writing, wrote, renamed, linked, removed, synced, failed}
use Rattle.compose_stored.specs.Changes.{Changes, ChangesBy, EndsWaiting, Fails, SomeFails}
use Rattle.compose_stored.specs.Steps.{ButFor, HasPrevious, Keeping, Keeps, Links, Moves, Replaced, Replaces, Used, Uses, UsesKeeping}
use Rattle.compose_stored.proofs.Changing.{ends_after, fails_after, fails_before, followed, followed_by, more_more, only_failed, some_before, weaker_by}

-- ---- a file that changes twice

pub put_get : (name : Name) (f : Files) → f ≡ put name (get name f) f
put_get names.Table f = refl
put_get names.NewTable f = refl
put_get names.Previous f = refl
put_get names.NewPrevious f = refl
put_get names.Next f = refl
put_get names.NewNext f = refl

pub put_put : (name : Name) (a b : Option (List ℕ)) (f : Files) → put name b (put name a f) ≡ put name b f
put_put names.Table a b f = refl
put_put names.NewTable a b f = refl
put_put names.Previous a b f = refl
put_put names.NewPrevious a b f = refl
put_put names.Next a b f = refl
put_put names.NewNext a b f = refl

pub but_same : (name : Name) (f : Files) → ButFor name f f
but_same name f = (get name f, put_get name f)

pub but_put : (name : Name) (has : Option (List ℕ)) (f : Files) → ButFor name f (put name has f)
but_put name has f = (has, refl)

pub put_twice : (name : Name) (has : Option (List ℕ)) (f g h : Files) → ButFor name f g → h ≡ put name has g → h ≡ put name has f
put_twice name has f g h (part, e) e' = e' ∙ ap (put name has) e ∙ put_put name part has f

pub but_twice : (name : Name) (f g h : Files) → ButFor name f g → ButFor name g h → ButFor name f h
but_twice name f g h a (part, e) = (part, put_twice name part f g h a e)

-- the same file changes, and changes once more
abbrev pub but_followed : (name : Name) (old mid new : Option (List Call)) → Changes (ButFor name) (ButFor name) old mid → Changes (ButFor name) (ButFor name) mid new → Changes (ButFor name) (ButFor name) old new
but_followed name old mid new a b = followed (ButFor name) (ButFor name) (ButFor name) (ButFor name) (ButFor name) (ButFor name) old mid new (λ f g x. x) (but_twice name) (but_twice name) a b

-- ---- one file

pub cleared : (name : Name) (old new : Option (List Call)) (r : Result (Unit {0}) ErrorKind) → MatchResult r (λ (x : Unit {0}). new ≡ more old (removed name ∷ [])) (λ (why : ErrorKind). new ≡ more old (failed why ∷ [])) → Changes (ButFor name) (ButFor name) old new
cleared name old new (Ok done) e = record { made = removed name ∷ []; calls = e; moments = λ f. (but_same name f, but_put name None f); ending = λ f. but_put name None f }
cleared name old new (Err why) e = record { made = failed why ∷ []; calls = e; moments = λ f. (but_same name f, but_same name f); ending = but_same name }

-- a file is written, after what was left of it is removed
pub written : (name : Name) (bytes : List ℕ) (old mid new : Option (List Call)) → Changes (ButFor name) (ButFor name) old mid → new ≡ more mid (writing name ∷ wrote name bytes ∷ []) → Changes (ButFor name) (λ f g. g ≡ put name (Some bytes) f) old new
written name bytes old mid new a e =
    let Has : Files → Files → Type 0 = λ f g. g ≡ put name (Some bytes) f in
    let b : Changes (ButFor name) Has mid new = record {
      made = writing name ∷ wrote name bytes ∷ [];
      calls = e;
      moments = λ f. (but_same name f, λ part. (but_put name part f, (Some bytes, put_put name part (Some bytes) f)));
      ending = λ f part. put_put name part (Some bytes) f;
    } in
    followed (ButFor name) (ButFor name) (ButFor name) Has (ButFor name) Has old mid new (λ f g x. x) (but_twice name) (put_twice name (Some bytes)) a b

-- a part of it is written, and is removed if it can be
pub given_up : (name : Name) (why : ErrorKind) (old mid later new : Option (List Call)) → Changes (ButFor name) (ButFor name) old mid → later ≡ more mid (writing name ∷ failed why ∷ []) → Changes (ButFor name) (ButFor name) later new
    → ChangesBy (Fails why) (ButFor name) (ButFor name) old new
given_up name why old mid later new a e c =
    let b : Changes (ButFor name) (ButFor name) mid later = record {
      made = writing name ∷ failed why ∷ [];
      calls = e;
      moments = λ f. (but_same name f, λ part. (but_put name part f, but_put name part f));
      ending = λ f part. but_put name part f;
    } in
    let ab = but_followed name old mid later a b in
    (but_followed name old later new ab c, fails_before why (a.made ++ writing name ∷ failed why ∷ []) c.made (a.made ++ writing name ∷ [], [], sym (append_assoc a.made (writing name ∷ []) (failed why ∷ []))))

-- the disk is waited for, until the changes are on it or in vain
pub waited : (old new : Option (List Call)) (r : Result (Unit {0}) ErrorKind) → MatchResult r (λ (x : Unit {0}). new ≡ more old (synced true ∷ [])) (λ (why : ErrorKind). new ≡ more old (synced false ∷ [])) → (done : Bool) × (new ≡ more old (synced done ∷ []))
waited old new (Ok done) e = (true, e)
waited old new (Err why) e = (false, e)

pub moved_and_waited : (from to : Name) (old mid new : Option (List Call)) → mid ≡ more old (renamed from to ∷ []) → ((done : Bool) × (new ≡ more mid (synced done ∷ [])))
    → ChangesBy EndsWaiting (λ f g. (g ≡ f) ⊎ (g ≡ moved from to f)) (λ f g. g ≡ moved from to f) old new
moved_and_waited from to old mid new e (done, e') = (
  record {
    made = renamed from to ∷ synced done ∷ [];
    calls = e' ∙ ap (λ (x : Option (List Call)). more x (synced done ∷ [])) e ∙ more_more old (renamed from to ∷ []) (synced done ∷ []);
    moments = λ f. (inl refl, (inr refl, inr refl));
    ending = λ f. refl;
  },
  (renamed from to ∷ [], done, refl),
)

-- ---- the previous table

pub linked_previous : (r : Result (Unit {0}) ErrorKind) (old mid new : Option (List Call)) → mid ≡ more old (linked names.Table names.NewPrevious ∷ [])
    → MatchResult r (λ (x : Unit {0}). new ≡ more mid (renamed names.NewPrevious names.Previous ∷ [])) (λ (why : ErrorKind). new ≡ more mid (failed why ∷ [])) → Links old new r
linked_previous (Ok done) old mid new e e' = record {
  made = linked names.Table names.NewPrevious ∷ renamed names.NewPrevious names.Previous ∷ [];
  calls = e' ∙ ap (λ (x : Option (List Call)). more x (renamed names.NewPrevious names.Previous ∷ [])) e
      ∙ more_more old (linked names.Table names.NewPrevious ∷ []) (renamed names.NewPrevious names.Previous ∷ []);
  moments = λ f. (inl (f.new_previous, refl), (inl (f.table, refl), inr (None, refl)));
  ending = λ f. (None, refl);
}
linked_previous (Err why) old mid new e e' = (
  record {
    made = linked names.Table names.NewPrevious ∷ failed why ∷ [];
    calls = e' ∙ ap (λ (x : Option (List Call)). more x (failed why ∷ [])) e ∙ more_more old (linked names.Table names.NewPrevious ∷ []) (failed why ∷ []);
    moments = λ f. (but_same names.NewPrevious f, (but_put names.NewPrevious f.table f, but_put names.NewPrevious f.table f));
    ending = λ f. but_put names.NewPrevious f.table f;
  },
  (linked names.Table names.NewPrevious ∷ [], [], refl),
)

pub not_linked : (why : ErrorKind) (old new : Option (List Call)) → new ≡ more old (failed why ∷ []) → Links old new (Err why)
not_linked why old new e = only_failed why (ButFor names.NewPrevious) (ButFor names.NewPrevious) old new e (but_same names.NewPrevious) (but_same names.NewPrevious)

-- it is kept, after what was left of an earlier try is removed
table_later : (f g h : Files) → ButFor names.NewPrevious f g → Keeping (λ f. f.table) g h → Keeping (λ f. f.table) f h
table_later f g h (part, e) k = subst (λ (x : Files). Keeping (λ f. f.table) x h) e k

table_end : (f g h : Files) → ButFor names.NewPrevious f g → HasPrevious g.table g h → HasPrevious f.table f h
table_end f g h (part, e) k = subst (λ (x : Files). HasPrevious x.table x h) e k

pub kept : (old mid new : Option (List Call)) (done : Unit {0}) → Changes (ButFor names.NewPrevious) (ButFor names.NewPrevious) old mid → Changes (Keeping (λ f. f.table)) (λ f. HasPrevious f.table f) mid new → Keeps old new (Ok done)
kept old mid new done a b =
    inl (followed (ButFor names.NewPrevious) (ButFor names.NewPrevious) (Keeping (λ f. f.table)) (λ f. HasPrevious f.table f) (Keeping (λ f. f.table)) (λ f. HasPrevious f.table f) old mid new
    (λ f g k. inl k) table_later table_end a b)

-- it can't be kept, and none is kept, if the one that is kept can be removed
none_later : (f g h : Files) → ButFor names.NewPrevious f g → Keeping (λ f. None) g h → Keeping (λ f. None) f h
none_later f g h (part, e) k = subst (λ (x : Files). Keeping (λ f. None) x h) e k

none_end : (f g h : Files) → ButFor names.NewPrevious f g → HasPrevious None g h → HasPrevious None f h
none_end f g h (part, e) k = subst (λ (x : Files). HasPrevious None x h) e k

pub not_kept : (r : Result (Unit {0}) ErrorKind) (why : ErrorKind) (old mid later new : Option (List Call)) → Changes (ButFor names.NewPrevious) (ButFor names.NewPrevious) old mid
    → ChangesBy (Fails why) (ButFor names.NewPrevious) (ButFor names.NewPrevious) mid later
    → MatchResult r (λ (x : Unit {0}). new ≡ more later (removed names.Previous ∷ [])) (λ (reason : ErrorKind). new ≡ more later (failed reason ∷ [])) → Keeps old new r
not_kept (Ok done) why old mid later new a (b, fails) e =
    let c : Changes (Keeping (λ f. None)) (λ f. HasPrevious None f) later new = record {
      made = removed names.Previous ∷ [];
      calls = e;
      moments = λ f. (inl (f.new_previous, refl), inr (f.new_previous, refl));
      ending = λ f. (f.new_previous, refl);
    } in
    let ab = but_followed names.NewPrevious old mid later a b in
    inr (
      followed (ButFor names.NewPrevious) (ButFor names.NewPrevious) (Keeping (λ f. None)) (λ f. HasPrevious None f) (Keeping (λ f. None)) (λ f. HasPrevious None f) old later new (λ f g k. inl k) none_later none_end ab c,
      some_before (a.made ++ b.made) (removed names.Previous ∷ []) (why, fails_after why a.made b.made fails),
    )
not_kept (Err reason) why old mid later new a (b, fails) e =
    let But : Files → Files → Type 0 = ButFor names.NewPrevious in
    followed_by (λ calls. Unit {0}) (Fails reason) (Fails reason) But But But But But But old later new (λ calls next x. fails_after reason calls next) (λ f g x. x) (but_twice names.NewPrevious) (but_twice names.NewPrevious)
    (but_followed names.NewPrevious old mid later a b, tt) (only_failed reason But But later new e (but_same names.NewPrevious) (but_same names.NewPrevious))

-- ---- a file that takes the place of another one

used_later : (kept : Files → Option (List ℕ)) (from : Name) (f g h : Files) → HasPrevious (kept f) f g → ((h ≡ g) ⊎ (h ≡ moved from names.Table g)) → Keeping kept f h ⊎ Used kept from f h
used_later kept from f g h k (inl e) = inl (inr (subst (HasPrevious (kept f) f) (sym e) k))
used_later kept from f g h k (inr e) = inr (g, k, e)

used_keeping : (kept : Files → Option (List ℕ)) (Made : List Call → Type 0) (from : Name) (r : Result (Unit {0}) ErrorKind) (old mid new : Option (List Call)) → ((calls next : List Call) → Made calls → Made (calls ++ next))
    → ChangesBy Made (Keeping kept) (λ f. HasPrevious (kept f) f) old mid → Moves from names.Table mid new r → UsesKeeping kept Made from old new r
used_keeping kept Made from (Ok done) old mid new tell a b =
    followed_by Made EndsWaiting (λ calls. EndsWaiting calls × Made calls) (Keeping kept) (λ f. HasPrevious (kept f) f) (λ f g. (g ≡ f) ⊎ (g ≡ moved from names.Table f)) (λ f g. g ≡ moved from names.Table f)
    (λ f g. Keeping kept f g ⊎ Used kept from f g) (Used kept from) old mid new (λ calls next x y. (ends_after calls next y, tell calls next x))
    (λ f g k. inl k) (used_later kept from) (λ f g h k e. (g, k, e)) a b
used_keeping kept Made from (Err why) old mid new tell a e =
    followed_by Made (Fails why) (Fails why) (Keeping kept) (λ f. HasPrevious (kept f) f) (λ f g. g ≡ f) (λ f g. g ≡ f) (Keeping kept) (Keeping kept) old mid new (λ calls next x. fails_after why calls next)
    (λ f g k. k) (λ f g h k same. inr (subst (HasPrevious (kept f) f) (sym same) k)) (λ f g h k same. inr (subst (HasPrevious (kept f) f) (sym same) k)) a
    (only_failed why (λ f g. g ≡ f) (λ f g. g ≡ f) mid new e (λ f. refl) (λ f. refl))

pub used : (from : Name) (r : Result (Unit {0}) ErrorKind) (old mid new : Option (List Call)) (done : Unit {0}) → Keeps old mid (Ok done) → Moves from names.Table mid new r → Uses from old new r
used from r old mid new done (inl a) b = inl (used_keeping (λ f. f.table) (λ calls. Unit {0}) from r old mid new (λ calls next x. tt) (a, tt) b)
used from r old mid new done (inr a) b = inr (used_keeping (λ f. None) SomeFails from r old mid new some_before a b)

pub not_used : (from : Name) (why : ErrorKind) (old new : Option (List Call)) → Keeps old new (Err why) → Uses from old new (Err why)
not_used from why old new a = inl (weaker_by (Fails why) (ButFor names.NewPrevious) (ButFor names.NewPrevious) (Keeping (λ f. f.table)) (Keeping (λ f. f.table)) old new (λ f g k. inl k) (λ f g k. inl k) a)

replaced_later : (through name : Name) (bytes : List ℕ) (f g h : Files) → g ≡ put through (Some bytes) f → ((h ≡ g) ⊎ (h ≡ moved through name g)) → ButFor through f h ⊎ Replaced through name bytes f h
replaced_later through name bytes f g h e (inl e') = inl (Some bytes, e' ∙ e)
replaced_later through name bytes f g h e (inr e') = inr (e' ∙ ap (moved through name) e)

pub replaced : (through name : Name) (bytes : List ℕ) (r : Result (Unit {0}) ErrorKind) (old mid new : Option (List Call)) → Changes (ButFor through) (λ f g. g ≡ put through (Some bytes) f) old mid
    → Moves through name mid new r → Replaces through name bytes old new r
replaced through name bytes (Ok done) old mid new a b =
    followed_by (λ calls. Unit {0}) EndsWaiting EndsWaiting (ButFor through) (λ f g. g ≡ put through (Some bytes) f) (λ f g. (g ≡ f) ⊎ (g ≡ moved through name f)) (λ f g. g ≡ moved through name f)
    (λ f g. ButFor through f g ⊎ Replaced through name bytes f g) (Replaced through name bytes) old mid new (λ calls next x. ends_after calls next)
    (λ f g k. inl k) (replaced_later through name bytes) (λ f g h e e'. e' ∙ ap (moved through name) e) (a, tt) b
replaced through name bytes (Err why) old mid new a e =
    followed_by (λ calls. Unit {0}) (Fails why) (Fails why) (ButFor through) (λ f g. g ≡ put through (Some bytes) f) (λ f g. g ≡ f) (λ f g. g ≡ f) (ButFor through) (ButFor through) old mid new
    (λ calls next x. fails_after why calls next) (λ f g k. k) (λ f g h k same. (Some bytes, same ∙ k)) (λ f g h k same. (Some bytes, same ∙ k)) (a, tt)
    (only_failed why (λ f g. g ≡ f) (λ f g. g ≡ f) mid new e (λ f. refl) (λ f. refl))
