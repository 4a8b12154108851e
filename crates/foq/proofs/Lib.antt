mod GivenBytes
mod CompileExport
mod InverseExport
