-- The lines have roles exactly where they are walked: the records are those among the roles.
use Rattle.std.proofs.Common.{◌≡◌, ◌↔◌, ℕ, Bool, inl, inr, List, [], ◌∷◌, refl, sym, ap, subst, ◌∙◌}
use Rattle.bz_breakpad_lines.specs.Grammar.{Role, allows_white, under_owner, AreRoles, records_of}
use Rattle.bz_breakpad_lines.specs.Grammar.Role.{Blank, Is}
use Rattle.bz_breakpad_lines.specs.Choice.{One}
use Rattle.bz_breakpad_lines.specs.Records.{INNER}
use Rattle.bz_breakpad_lines.specs.Contexts.{Context, Record, context_after, white_allowed_after, IsBodyOf, IsRecord}
use Rattle.bz_breakpad_lines.specs.Contexts.Context.{Outside, InFunc, InCfi}
use Rattle.bz_breakpad_lines.specs.Contexts.Record.{Top, OfFunc, OfCfi}
use Rattle.bz_breakpad_lines.proofs.Walks.{Walks}

-- a record of a function stands under one
func_context : (c : Context) (body : List ℕ) (one : One INNER) → IsBodyOf c body (OfFunc one) → InFunc ≡ c
func_context Outside body one is = absurd is
func_context InFunc body one is = refl
func_context InCfi body one is = absurd is

-- a STACK CFI record stands under a STACK CFI INIT record
cfi_context : (c : Context) (body : List ℕ) → IsBodyOf c body OfCfi → InCfi ≡ c
cfi_context Outside body is = absurd is
cfi_context InFunc body is = absurd is
cfi_context InCfi body is = refl

-- what may stand under a record's owner is what the record sets for the next line
pub context_kept : (before : List Role) (text : List ℕ) (r : Record) → IsRecord (under_owner before) text r →
    context_after r ≡ under_owner (Is r ∷ before)
context_kept before text (Top one) is = refl
context_kept before text (OfFunc one) is = func_context (under_owner before) is.0 one is.2
context_kept before text OfCfi is = cfi_context (under_owner before) is.0 is.2

-- white space may stand after the record by its role, where it may by the record
white_kept : (before : List Role) (r : Record) → white_allowed_after r ≡ allows_white (Is r ∷ before)
white_kept before (Top one) = refl
white_kept before (OfFunc one) = refl
white_kept before OfCfi = refl

-- the roles of lines whose records are these
record HaveRoles (before : List Role) (lines : List (List ℕ)) (records : List Record) : Type 0 where
  pub roles : List Role
  pub are : AreRoles before lines roles
  pub records_are : records ≡ records_of roles

-- lines that are walked have roles
roles_found : (before : List Role) (lines : List (List ℕ)) (records : List Record) →
    Walks (under_owner before) (allows_white before) lines records → HaveRoles before lines records
roles_found before [] records is = record { roles = []; are = tt; records_are = is }
roles_found before (line ∷ lines) records (inl is) =
    let P : Bool → Type 0 = λ white_allowed. Walks (under_owner before) white_allowed lines records in
    let rest = roles_found (Blank ∷ before) lines records (subst P is.0 is.2) in
    record { roles = Blank ∷ rest.roles; are = ((is.0, is.1), rest.are); records_are = rest.records_are }
roles_found before (line ∷ lines) records (inr is) =
    let P : Context → Type 0 = λ c. Walks c (white_allowed_after is.first) lines is.others in
    let Q : Bool → Type 0 = λ white_allowed. Walks (under_owner (Is is.first ∷ before)) white_allowed lines is.others in
    let walks = subst Q (white_kept before is.first) (subst P (context_kept before is.text is.first is.first_is) is.rest) in
    let rest = roles_found (Is is.first ∷ before) lines is.others walks in
    record {
      roles = Is is.first ∷ rest.roles;
      are = (record { text = is.text; text_is = is.text_is; record_is = is.first_is }, rest.are);
      records_are = is.records_are ∙ ap (λ others. is.first ∷ others) rest.records_are;
    }

-- lines that have roles are walked
roles_again : (before : List Role) (lines : List (List ℕ)) (roles : List Role) → AreRoles before lines roles →
    Walks (under_owner before) (allows_white before) lines (records_of roles)
roles_again before [] [] are = refl
roles_again before [] (role ∷ roles) are = absurd are
roles_again before (line ∷ lines) [] are = absurd are
roles_again before (line ∷ lines) (Blank ∷ roles) are =
    let P : Bool → Type 0 = λ white_allowed. Walks (under_owner before) white_allowed lines (records_of roles) in
    inl (are.0.0, are.0.1, subst P (sym are.0.0) (roles_again (Blank ∷ before) lines roles are.1))
roles_again before (line ∷ lines) (Is r ∷ roles) are =
    let P : Context → Type 0 = λ c. Walks c (white_allowed_after r) lines (records_of roles) in
    let Q : Bool → Type 0 = λ white_allowed. Walks (under_owner (Is r ∷ before)) white_allowed lines (records_of roles) in
    let walks = subst Q (sym (white_kept before r)) (roles_again (Is r ∷ before) lines roles are.1) in
    inr (record {
      text = are.0.text;
      first = r;
      others = records_of roles;
      text_is = are.0.text_is;
      first_is = are.0.record_is;
      rest = subst P (sym (context_kept before are.0.text r are.0.record_is)) walks;
      records_are = refl;
    })

-- lines are walked exactly where they have roles
pub roles_exactly : (before : List Role) (lines : List (List ℕ)) (records : List Record) →
    Walks (under_owner before) (allows_white before) lines records
    ↔ ((roles : List Role) × AreRoles before lines roles × (records ≡ records_of roles))
roles_exactly before lines records = (
  λ is. let have = roles_found before lines records is in (have.roles, have.are, have.records_are),
  λ have.
      let P : List Record → Type 0 = Walks (under_owner before) (allows_white before) lines in
      subst P (sym have.2) (roles_again before lines have.0 have.1),
)
