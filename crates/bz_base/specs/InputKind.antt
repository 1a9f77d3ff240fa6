-- What an input is relative to, and what it holds.
use Rattle.bz_base.specs.declared.input.Input.{Input}
use Rattle.bz_base.specs.declared.input.Input.TheVariants.{AbsAddr, VirtOffset, FileOffset}

-- what addresses are relative to: a running process, a symbol table, or the file that a source names
pub data AddressKind : Type 0 where
  InProcess : AddressKind
  InTable : AddressKind
  InFile : AddressKind

abbrev pub address_kind : {T : Type 0} → Input T → AddressKind
address_kind (AbsAddr x) = InProcess
address_kind (VirtOffset x) = InTable
address_kind (FileOffset x) = InFile

-- the payload
abbrev pub payload : {T : Type 0} → Input T → T
payload (AbsAddr x) = x
payload (VirtOffset x) = x
payload (FileOffset x) = x

-- the second input is of the kind of the first, and `Gives` holds of their payloads
abbrev pub MapsTo : {T U : Type 0} → (T → U → Type 0) → Input T → Input U → Type 0
MapsTo Gives (AbsAddr x) (AbsAddr y) = Gives x y
MapsTo Gives (VirtOffset x) (VirtOffset y) = Gives x y
MapsTo Gives (FileOffset x) (FileOffset y) = Gives x y
MapsTo Gives _ _ = ⊥
