-- What is said of a file is so, and nothing else is.
use Rattle.std.proofs.Common.{◌≡◌, ◌↔◌, ℕ, List, [], Option, Some, None, Result, Ok, Err, IfOk, option_map, sym, ap, subst, ◌∙◌}
use Rattle.std.proofs.lemmas.Option.{none-some, same_Some}
use Rattle.bz_breakpad_table.specs.Refusals.{IsRefusal}
use Rattle.bz_breakpad_table.specs.declared.refused.Refused.{Refused}
use Rattle.bz_files.specs.World.{Denied, Entry, Present, World, entry_at}
use Rattle.bz_files.specs.declared.stamp.Stamp.{Stamp}
use Rattle.bz_words.specs.Command.{Command, command_in}
use Rattle.bz_words.specs.Messages.{SaysAt, SaysOf, SaysWhere, Tells, breakpad_path, line_about, said_of}

module _ (path bytes : List ℕ) (found : Option Refused) (exact : (why : Option Refused) → (found ≡ why) ↔ IsRefusal bytes why) where
  -- of bytes that aren't refused nothing is said
  pub none_of : found ≡ None → Tells None (SaysOf path bytes)
  none_of is line = (
    λ same. absurd (none-some line same),
    λ says. absurd (none-some says.why (sym is ∙ (exact (Some says.why)).1 says.refusal)),
  )

  -- of bytes that are refused it is said why
  pub some_of : (why : Refused) (said : List ℕ) → found ≡ Some why → said ≡ line_about path (said_of why) → Tells (Some said) (SaysOf path bytes)
  some_of why said is said_is line = (
    λ same. record { why = why; refusal = (exact (Some why)).0 is; line_is = sym (same_Some said line same) ∙ said_is },
    λ says.
        let same : why ≡ says.why = same_Some why says.why (sym is ∙ (exact (Some says.why)).1 says.refusal) in
        ap Some (said_is ∙ ap (λ w. line_about path (said_of w)) same ∙ sym says.line_is),
  )

-- the bytes of a version
abbrev bytes_in : Entry → List ℕ
bytes_in Denied = []
bytes_in (Present stamp bytes) = bytes

-- what is said of the bytes is said of the path where they lie
tells_at : (path : List ℕ) (world : World) (stamp : Stamp) (bytes : List ℕ) → entry_at world path ≡ Some (Present stamp bytes) →
    (said : Option (List ℕ)) → Tells said (SaysOf path bytes) → Tells said (SaysAt path world)
tells_at path world stamp bytes there said tells line = (
  λ is. record { stamp = stamp; bytes = bytes; there = there; says = (tells line).0 is },
  λ says.
      let same : says.bytes ≡ bytes = ap bytes_in (same_Some (Present says.stamp says.bytes) (Present stamp bytes) (sym says.there ∙ there)) in
      (tells line).1 (subst (λ b. SaysOf path b line) same says.says),
)

-- what is said of the path is said of the words that name it
tells_where : (words : List (List ℕ)) (world : World) (command : Command) → command_in words ≡ Some command → (path : List ℕ) → breakpad_path command.job ≡ Some path →
    (said : Option (List ℕ)) → Tells said (SaysAt path world) → Tells said (SaysWhere words world)
tells_where words world command given path named said tells line = (
  λ is. record { command = command; path = path; given = given; named = named; says = (tells line).0 is },
  λ says.
      let same : says.command ≡ command = same_Some says.command command (sym says.given ∙ given) in
      let same_path : says.path ≡ path = same_Some says.path path (sym says.named ∙ ap (λ (c : Command). breakpad_path c.job) same ∙ named) in
      (tells line).1 (subst (λ p. SaysAt p world line) same_path says.says),
)

-- the same of what a call gives
module _ {S E : Type 0} (bytes_of : S → List ℕ) (given : Result (Option S) E) where
  abbrev GivesTold : (List ℕ → Type 0) → Type 0
  GivesTold Says = IfOk given (λ said. Tells (option_map bytes_of said) Says)

  pub given_at : (path : List ℕ) (world : World) (stamp : Stamp) (bytes : List ℕ) → entry_at world path ≡ Some (Present stamp bytes) →
      GivesTold (SaysOf path bytes) → GivesTold (SaysAt path world)
  given_at path world stamp bytes there tells = by given tells
    where
      by : (g : Result (Option S) E) → IfOk g (λ said. Tells (option_map bytes_of said) (SaysOf path bytes)) → IfOk g (λ said. Tells (option_map bytes_of said) (SaysAt path world))
      by (Ok said) tells = tells_at path world stamp bytes there (option_map bytes_of said) tells
      by (Err error) tells = tells

  pub given_where : (words : List (List ℕ)) (world : World) (command : Command) → command_in words ≡ Some command → (path : List ℕ) → breakpad_path command.job ≡ Some path →
      GivesTold (SaysAt path world) → GivesTold (SaysWhere words world)
  given_where words world command is path named tells = by given tells
    where
      by : (g : Result (Option S) E) → IfOk g (λ said. Tells (option_map bytes_of said) (SaysAt path world)) → IfOk g (λ said. Tells (option_map bytes_of said) (SaysWhere words world))
      by (Ok said) tells = tells_where words world command is path named (option_map bytes_of said) tells
      by (Err error) tells = tells
