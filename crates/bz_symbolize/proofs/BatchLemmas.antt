-- What a version answers to a batch, in the words of the source's format.
use Rattle.std.proofs.Common.{◌↔◌, ℕ, List, Ok, Err, ap, sym}
use Rattle.bz_base.specs.Answer.{Answer}
use Rattle.bz_base.specs.InputKind.{AddressKind}
use Rattle.bz_base.specs.declared.error.Error.{Error}
use Rattle.bz_base.specs.declared.types.FindSymOpts.{FindSymOpts}
use Rattle.bz_symbolize.specs.FileCall.{batch_of}
use Rattle.bz_symbolize.specs.Promise.{IsAnswerOf, IsBreakpadAnswer, IsBreakpadBatch, IsElfAnswer, IsElfBatch, IsGsymAnswer, IsGsymBatch}
use Rattle.bz_symbolize.specs.declared.source.Source.{Source}
use Rattle.bz_symbolize.specs.declared.source.Source.TheVariants as sources

-- a version refuses no batch by itself
pub never_refused : (source : Source) (opts : FindSymOpts) (bytes : List ℕ) (kind : AddressKind) (addrs : List ℕ) (e : Error) → IsAnswerOf source opts bytes (batch_of kind addrs) (Err e) → ⊥
never_refused (sources.Breakpad source) opts bytes kind addrs e is = let plain = is.plain in cc
never_refused (sources.Gsym source) opts bytes kind addrs e is = let plain = is.plain in cc
never_refused (sources.Elf source) opts bytes kind addrs e is = let plain = is.plain in cc
never_refused (sources.Process source) opts bytes kind addrs e is = is

-- what a Breakpad file answers to a batch is the batch of its table
pub batch_answered : (opts : FindSymOpts) (bytes : List ℕ) (kind : AddressKind) (addrs : List ℕ) (answers : List Answer) →
    IsBreakpadAnswer opts bytes (batch_of kind addrs) (Ok answers) → IsBreakpadBatch opts bytes addrs answers
batch_answered opts bytes kind addrs answers is = record { table = is.table; accepted = is.accepted; plain = let plain = is.plain in cc }

pub plain_batch : (opts : FindSymOpts) (bytes : List ℕ) (kind : AddressKind) (addrs : List ℕ) (answers : List Answer) →
    IsBreakpadAnswer opts bytes (batch_of kind addrs) (Ok answers) ↔ IsBreakpadBatch opts bytes addrs answers
plain_batch opts bytes kind addrs answers =
    (batch_answered opts bytes kind addrs answers, λ is. record { table = is.table; accepted = is.accepted; plain = ap Ok (sym is.plain) })

-- what a GSYM file answers to a batch is the batch of its tables
pub gsym_answered : (opts : FindSymOpts) (bytes : List ℕ) (kind : AddressKind) (addrs : List ℕ) (answers : List Answer) →
    IsGsymAnswer opts bytes (batch_of kind addrs) (Ok answers) → IsGsymBatch opts bytes addrs answers
gsym_answered opts bytes kind addrs answers is = record { accepted = is.accepted; plain = let plain = is.plain in cc }

pub plain_gsym : (opts : FindSymOpts) (bytes : List ℕ) (kind : AddressKind) (addrs : List ℕ) (answers : List Answer) →
    IsGsymAnswer opts bytes (batch_of kind addrs) (Ok answers) ↔ IsGsymBatch opts bytes addrs answers
plain_gsym opts bytes kind addrs answers =
    (gsym_answered opts bytes kind addrs answers, λ is. record { accepted = is.accepted; plain = ap Ok (sym is.plain) })

-- what an ELF file answers to a batch is the batch of its symbol table
pub elf_answered : (path bytes : List ℕ) (kind : AddressKind) (addrs : List ℕ) (answers : List Answer) →
    IsElfAnswer path bytes (batch_of kind addrs) (Ok answers) → IsElfBatch path bytes kind addrs answers
elf_answered path bytes kind addrs answers is = record { accepted = is.accepted; served = is.served; plain = let plain = is.plain in cc }

pub plain_elf : (path bytes : List ℕ) (kind : AddressKind) (addrs : List ℕ) (answers : List Answer) →
    IsElfAnswer path bytes (batch_of kind addrs) (Ok answers) ↔ IsElfBatch path bytes kind addrs answers
plain_elf path bytes kind addrs answers =
    (elf_answered path bytes kind addrs answers, λ is. record { accepted = is.accepted; served = is.served; plain = ap Ok (sym is.plain) })
