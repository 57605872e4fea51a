-- How refusals of single openings are told.
use Rattle.fo_disk.specs.declared.disk.DiskFault.TheVariants.{Read}
use Rattle.fo_check.specs.declared.error.CheckError.{CheckError}
use Rattle.fo_check.specs.declared.error.CheckError.TheVariants as error
use Rattle.fo_opening.specs.declared.error.Why.{Why}
use Rattle.fo_opening.specs.declared.error.Why.TheVariants as why
use Rattle.venti_store.specs.declared.error.ArenaWhy.{ArenaWhy}
use Rattle.venti_store.specs.declared.error.ArenaWhy.TheVariants as vault

abbrev pub main_why : Why → CheckError
main_why why.Size = error.Size
main_why why.Header = error.Unsound 1 0
main_why why.Super = error.Unsound 1 1
main_why (why.Label block) = error.Unsound 4 block
main_why why.Root = error.Unsound 2 1
main_why (why.Fault fault) = error.Main fault
main_why why.Memory = error.Memory

abbrev pub arena_why : ArenaWhy → CheckError
arena_why vault.NotArena = error.NotArena
arena_why vault.ArenaRead = error.Arena Read
arena_why vault.Memory = error.Memory
