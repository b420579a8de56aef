-- The rules of images: those of the file format, and those of loading.
use Rattle.wf_outside.specs.declared.rules.ElfRule.{ElfRule}
use Rattle.wf_outside.specs.declared.rules.ElfRule.TheVariants as elf
use Rattle.wf_outside.specs.declared.rules.LoadRule.{LoadRule}
use Rattle.wf_outside.specs.declared.rules.LoadRule.TheVariants as load
use Rattle.wf_status.specs.declared.rules.ImageRule.{ImageRule}
use Rattle.wf_status.specs.declared.rules.ImageRule.TheVariants.{Short, Magic, Class, Order, Kind, Machine, Flags, Table, Range, Strings, TlsSegment, Interp, Dynamic, WriteAndRun, HighAddress, TooLarge, SharedPage, NoEntry}

-- a rule of the file format
abbrev pub of_file : ElfRule → ImageRule
of_file elf.Short = Short
of_file elf.Magic = Magic
of_file elf.Class = Class
of_file elf.Order = Order
of_file elf.Kind = Kind
of_file elf.Machine = Machine
of_file elf.Flags = Flags
of_file elf.Table = Table
of_file elf.Range = Range
of_file elf.Strings = Strings

-- a rule of loading
abbrev pub of_loading : LoadRule → ImageRule
of_loading load.TlsSegment = TlsSegment
of_loading load.Interp = Interp
of_loading load.Dynamic = Dynamic
of_loading load.WriteAndRun = WriteAndRun
of_loading load.HighAddress = HighAddress
of_loading load.TooLarge = TooLarge
of_loading load.SharedPage = SharedPage
of_loading load.NoEntry = NoEntry
