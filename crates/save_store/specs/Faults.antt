-- Faults of areas, as those of a store.
use Rattle.disk_area.specs.declared.damage.AreaFault.{AreaFault}
use Rattle.disk_area.specs.declared.damage.AreaFault.TheVariants as area
use Rattle.area_store.specs.declared.faults.SaveFault.{SaveFault as AreaSaveFault}
use Rattle.area_store.specs.declared.faults.SaveFault.TheVariants as area_save
use Rattle.save_store.specs.declared.faults.OpenFault.{OpenFault}
use Rattle.save_store.specs.declared.faults.OpenFault.TheVariants as open_fault
use Rattle.save_store.specs.declared.faults.SaveFault.{SaveFault}
use Rattle.save_store.specs.declared.faults.SaveFault.TheVariants as save_fault

abbrev pub opening : AreaFault → OpenFault
opening area.Disk = open_fault.Disk
opening (area.Damaged damage) = open_fault.Damaged damage
opening area.Memory = open_fault.Memory

abbrev pub saving : AreaSaveFault → SaveFault
saving area_save.Disk = save_fault.Disk
saving area_save.TooLarge = save_fault.TooLarge
saving area_save.NumbersUsed = save_fault.NumbersUsed
